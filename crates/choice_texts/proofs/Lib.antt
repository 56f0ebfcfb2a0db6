pub mod Hexadecimal
pub mod Choices
