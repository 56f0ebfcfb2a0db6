pub mod Ways
pub mod Designators
pub mod Lengths
