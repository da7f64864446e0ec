-- The claim about every list of calls: the calls follow the book, what a sound table's book adds up to, and both
-- together. And what one call leaves as it was, that the reserves of operators are kept, which answers request c changed,
-- and which registers were sound before requests a and g.
pub mod States
pub mod Steps
pub mod Runs
pub mod Accounts
pub mod Entries
pub mod Allocations
pub mod Points
pub mod EnergyBooks
pub mod Transfers
pub mod SoundTables
pub mod Facts
pub mod Promise
pub mod LastSave
pub mod Theorem
pub mod Frames
pub mod OnlyAppends
pub mod Older
