-- The claim about every list of calls through the hub: numbers there and back, a call, where a list begins, all lists.
pub mod Back
pub mod Steps
pub mod Begins
pub mod Theorem
