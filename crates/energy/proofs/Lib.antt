-- Laws of the energy call: a notice's numbers, its rows, and what it does once its point is found.
pub mod Raised
pub mod Refusals
pub mod Entered
pub mod Call
