pub mod Widths
pub mod Can
pub mod Combined
