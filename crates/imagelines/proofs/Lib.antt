-- Laws of the lines on images.
pub mod Tests
pub mod Outcomes
