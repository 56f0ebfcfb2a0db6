pub mod Around
pub mod Temps
pub mod Fits
pub mod Here
pub mod Kept
pub mod Operands
