pub mod Steps
pub mod Known
pub mod Calls
pub mod Expressions
pub mod Statements
