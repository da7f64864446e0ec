-- A register in the other edition (document 02, k).
pub mod Conversion
pub mod SameBook
pub mod InnerConversion
