pub mod Ahead
pub mod Labels
