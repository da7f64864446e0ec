-- The calls request and withdraw.
pub mod Transfer
pub mod InnerParts
