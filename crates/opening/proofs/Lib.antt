pub mod CallNumbers
pub mod OpenCall
pub mod FreshCall
