pub mod Forms
pub mod Choices
pub mod Seen
pub mod Statements
