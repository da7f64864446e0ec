-- The rows of one point's part of the register table, and what the code tests of each.
pub mod InnerTests
pub mod InnerParts
