pub mod Gathers
pub mod Places
