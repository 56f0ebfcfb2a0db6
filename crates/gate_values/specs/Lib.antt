pub mod Operated
pub mod Operators
pub mod Values
