-- The laws between days and lists: what the book reads off the days of lists, and that each notice on the lists is the
-- book's. Function extensionality is used; no axiom is.
pub mod Rows
pub mod Last
pub mod Splits
pub mod Scan
pub mod Apart
pub mod Records
pub mod RecordSteps
pub mod Registrations
pub mod Covering
pub mod Spans
pub mod SpanSteps
pub mod Switch
pub mod Points
pub mod Operators
pub mod Bounds
pub mod OpenStep
pub mod EnergyStep
pub mod StatusStep
pub mod TransferStep
pub mod FroChanges
pub mod CorrectStep
pub mod Notices
pub mod OtherRoom
