pub mod Calls
pub mod Builtins
