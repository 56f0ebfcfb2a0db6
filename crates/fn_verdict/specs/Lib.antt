pub mod Double
pub mod Inner
pub mod Leaks
pub mod Pairs
