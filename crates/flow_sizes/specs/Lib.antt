pub mod Loop
pub mod Sizes
