-- The register table (document 01, "The register table"): what its numbers stand for, when it is sound, and what writes
-- leave in it.
pub mod Places
pub mod Layout
pub mod Sound
pub mod InnerParts
pub mod InnerWrites
pub mod Calls
pub mod InnerMirns
