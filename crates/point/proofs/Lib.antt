-- Laws that the proofs of this crate and of those above it cite.
pub mod Loops
pub mod OnDays
pub mod Rows
pub mod Registrations
pub mod Spans
pub mod OffDays
pub mod Records
pub mod Readers
