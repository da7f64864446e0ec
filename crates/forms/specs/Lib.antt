-- The form of each call's line.
pub mod Forms
pub mod InnerForms
