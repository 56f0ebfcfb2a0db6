pub mod Adding
pub mod Gates
pub mod Loaded
pub mod Cones
