pub mod Steps
pub mod Order
pub mod Weight
pub mod Looks
pub mod Decided
