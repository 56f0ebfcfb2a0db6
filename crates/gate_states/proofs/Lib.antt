pub mod Staying
pub mod Naming
pub mod Reading
