pub mod Tagged
pub mod Leaves
pub mod Plain
