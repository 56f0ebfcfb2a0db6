pub mod Builtins
pub mod Files
