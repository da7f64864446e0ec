-- The text of a journal: numbers, words and the names of calls.
pub mod Text
pub mod Names
pub mod InnerText
