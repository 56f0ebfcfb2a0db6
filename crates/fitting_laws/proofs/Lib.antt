pub mod Finding
pub mod Reading
pub mod Fitting
pub mod Sites
pub mod Functions
pub mod ExampleTyped
