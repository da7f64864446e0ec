-- The day book of document 01: what a reader must believe. Each rule stands beside its clause of document 003; a rule
-- that document 01 marks as its own is marked *ours*.
pub mod Book
pub mod Notices
pub mod Corrections
pub mod Queries
pub mod States
pub mod Editions
pub mod FromNumbers
pub mod Trials
pub mod Calls
