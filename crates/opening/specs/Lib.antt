-- fresh and open on a lent table.
pub mod Opening
