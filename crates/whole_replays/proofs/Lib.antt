pub mod Spares
pub mod Tells
