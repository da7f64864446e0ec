-- Laws of the buffers that a line lends.
pub mod Bytes
