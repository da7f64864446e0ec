-- What account answers.
pub mod Account
pub mod InnerRegistrations
