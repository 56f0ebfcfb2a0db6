pub mod Parts
pub mod Numbers
pub mod Certificate
pub mod Expecting
pub mod Reading
pub mod Writing
