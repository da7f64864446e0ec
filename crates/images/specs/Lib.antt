-- Images of a register, saved under a state number (document 02, d).
pub mod Blocks
pub mod Images
pub mod NamedStates
