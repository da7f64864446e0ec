-- The call correct.
pub mod Correction
pub mod InnerParts
