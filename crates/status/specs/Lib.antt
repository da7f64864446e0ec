-- The call that says from which day on a point is off, or on again.
pub mod Status
pub mod InnerParts
