pub mod Faults
pub mod Walks
pub mod Gives
pub mod Conversions
pub mod Plain
