pub mod Members
pub mod Structs
