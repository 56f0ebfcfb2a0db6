pub mod Named
pub mod Hex
pub mod Binary
