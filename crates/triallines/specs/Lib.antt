-- What the line `trial` of a journal prints.
pub mod TrialLines
