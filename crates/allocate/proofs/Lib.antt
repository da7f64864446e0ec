pub mod Loads
pub mod Apportioned
pub mod Arrays
pub mod Call
pub mod Given
pub mod Splits
pub mod UserTotals
