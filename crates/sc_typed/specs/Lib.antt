pub mod Kinds
pub mod Types
pub mod Extents
pub mod Arith
pub mod Constants
