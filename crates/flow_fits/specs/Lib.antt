pub mod Voids
pub mod Encodable
pub mod Text
