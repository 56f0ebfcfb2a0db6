pub mod Binary
pub mod Conditionals
