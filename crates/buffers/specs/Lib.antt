-- What a call reads from byte buffers and leaves of them.
pub mod Buffers
