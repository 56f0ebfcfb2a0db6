pub mod Types
pub mod Places
pub mod Calling
pub mod Fitting
pub mod Functions
