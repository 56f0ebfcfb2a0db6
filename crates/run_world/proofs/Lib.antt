pub mod Lengths
pub mod Slots
