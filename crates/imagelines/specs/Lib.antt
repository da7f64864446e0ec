-- What the lines of a journal on images print and leave.
pub mod ImageLines
