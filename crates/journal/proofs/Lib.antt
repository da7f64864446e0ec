-- Laws of a journal's text.
pub mod Numbers
pub mod Words
pub mod Ends
pub mod Line
pub mod Names
