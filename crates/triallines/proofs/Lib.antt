-- Laws of the line on a trial.
pub mod Outcomes
