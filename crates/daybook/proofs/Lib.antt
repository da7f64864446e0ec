-- Laws on which the proofs rest; each function's own proof stands in its folder.
pub mod Arrays
pub mod Kept
