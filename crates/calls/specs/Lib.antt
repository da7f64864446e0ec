-- What each call does.
pub mod Calls
pub mod InnerCalls
