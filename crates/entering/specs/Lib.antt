-- A notice's numbers, and the part that it is entered into.
pub mod InnerEntering
