pub mod Kept
pub mod Easy
pub mod Parts
pub mod Expressions
pub mod Statements
pub mod Whole
