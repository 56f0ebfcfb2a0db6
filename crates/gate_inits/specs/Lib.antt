pub mod Inits
