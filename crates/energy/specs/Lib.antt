-- The call that enters an energy notice.
pub mod Energy
pub mod InnerParts
