pub mod Points
pub mod Withdrawals
pub mod Requests
