-- Laws of the trial: an answer's numbers, one notice, a batch notice by notice, the call row by row, and the batch entered for good.
pub mod Answers
pub mod Tried
pub mod Batch
pub mod Calls
pub mod AsEntered
