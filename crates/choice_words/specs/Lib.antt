pub mod Bits
pub mod Things
pub mod Words
