pub mod Objects
pub mod Widths
pub mod Readings
pub mod Copies
