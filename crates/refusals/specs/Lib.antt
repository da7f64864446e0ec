-- The refusals of document 01 and document 02, with their numbers.
pub mod Refusals
