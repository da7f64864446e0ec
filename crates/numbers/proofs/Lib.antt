-- Laws that the proofs of this crate and of those above it cite.
pub mod Bools
pub mod Integers
pub mod Naturals
pub mod Rows
pub mod Search
pub mod Sums
pub mod Floor
pub mod Shares
