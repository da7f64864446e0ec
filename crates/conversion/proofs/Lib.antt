pub mod Calls
pub mod SameBook
pub mod Room
pub mod CopiedPart
pub mod CopiedParts
pub mod LaidOut
