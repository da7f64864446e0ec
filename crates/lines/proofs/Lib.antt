-- Laws of the lines of a journal.
pub mod Outcomes
pub mod Calls
pub mod Rows
pub mod Conversions
