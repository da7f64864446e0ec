-- Document 01's marked cases, answers at the boundaries, corrections, named states, editions and trials, computed from
-- the definitions.
pub mod Marked
pub mod Boundaries
pub mod Corrections
pub mod States
pub mod Editions
pub mod Trials
