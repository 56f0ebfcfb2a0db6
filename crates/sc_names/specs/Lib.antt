pub mod Notes
pub mod Names
pub mod Structs
pub mod Tags
