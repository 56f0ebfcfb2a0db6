pub mod Operands
pub mod Names
pub mod Declarators
pub mod Bounds
pub mod Fields
