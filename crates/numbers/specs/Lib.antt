-- Integers as the register reads them: naturals of a table, energies, sums over days, floor and ceil parts, shares.
pub mod Naturals
pub mod Answers
pub mod Rows
pub mod Sums
pub mod Shares
pub mod Search
pub mod InnerEnergies
