-- A point as three lists, the days that they stand for, and each notice as a step on the lists.
pub mod Lists
pub mod InnerSteps
pub mod InnerWell
