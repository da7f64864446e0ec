-- The code's tests of a part decide its soundness.
pub mod OnePass
pub mod Pending
pub mod Decides
