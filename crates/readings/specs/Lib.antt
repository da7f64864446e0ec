-- What is read off one point's part of the table.
pub mod InnerReadings
pub mod InnerRecords
