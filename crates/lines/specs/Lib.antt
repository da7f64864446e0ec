-- What the lines of a journal print and leave.
pub mod Lines
