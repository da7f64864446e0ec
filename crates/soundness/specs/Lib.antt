-- Soundness of one point's part of the register table, as the code tests it.
pub mod InnerPart
