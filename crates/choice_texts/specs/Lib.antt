pub mod Digits
pub mod Choices
