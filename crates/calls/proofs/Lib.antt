-- Laws of the calls.
pub mod Calls
