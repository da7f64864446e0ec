-- The buffers that a line lends.
pub mod Lending
