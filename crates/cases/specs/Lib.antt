-- Document 01's marked cases, said of the definitions.
pub mod Journal
pub mod Marked
