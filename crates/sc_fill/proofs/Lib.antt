pub mod Deeper
pub mod Front
pub mod Values
pub mod Elements
