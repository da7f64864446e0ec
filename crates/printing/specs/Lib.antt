-- Rows of numbers as text.
pub mod Rows
