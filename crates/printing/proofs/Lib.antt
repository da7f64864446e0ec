-- Laws of printed rows.
pub mod Rows
