-- Laws of a part that a notice enters: the record that starts on a day, and what each function leaves.
pub mod StartRows
pub mod Laying
pub mod Entering
pub mod Settling
