pub mod Outputs
pub mod Workers
pub mod Turns
