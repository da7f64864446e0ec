-- The trial of a batch of energy notices (document 02, i).
pub mod Trial
pub mod AsEntered
pub mod InnerTrial
