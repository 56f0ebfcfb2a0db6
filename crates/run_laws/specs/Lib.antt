pub mod Example
pub mod Fits
pub mod Functions
pub mod Keeps
pub mod Proper
