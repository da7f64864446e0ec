-- The look-up of a point by its MIRN.
pub mod Lookup
pub mod InnerTable
pub mod InnerRegisters
