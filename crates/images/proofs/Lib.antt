-- Laws of images, cited by the proofs of this crate and of those above it.
mod Sums
pub mod Blocks
pub mod Alike
pub mod Saved
pub mod Calls
pub mod GivesBack
