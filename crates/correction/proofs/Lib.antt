pub mod Walks
pub mod Points
pub mod Calls
pub mod Made
