-- Laws that the proofs of the functions cite, and those of the exported functions.
pub mod Bytes
pub mod Ends
pub mod Images
