pub mod Types
pub mod Named
pub mod Marking
pub mod Voids
pub mod Passing
