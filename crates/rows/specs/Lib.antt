-- A record as the row writers take it.
pub mod InnerRows
