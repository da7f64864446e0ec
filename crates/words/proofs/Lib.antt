-- Laws that several proofs, and other crates' proofs, cite.
pub mod Numbers
pub mod Words
pub mod Tables
pub mod Back
mod Checks
