pub mod Casting
pub mod Stepping
