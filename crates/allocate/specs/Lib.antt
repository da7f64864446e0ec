-- What allocate answers, and what it gives the answer table.
pub mod Allocate
pub mod InnerParts
