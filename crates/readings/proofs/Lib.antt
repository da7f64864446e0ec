-- Laws that the proofs of this crate and of those above it cite.
pub mod Part
pub mod Records
pub mod Energy
pub mod Days
pub mod Users
pub mod Shares
pub mod Weights
pub mod Points
pub mod Chains
