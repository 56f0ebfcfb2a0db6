pub mod Escapes
pub mod Releases
pub mod Given
