pub mod Writing
pub mod Each
pub mod States
pub mod Outs
pub mod Writes
