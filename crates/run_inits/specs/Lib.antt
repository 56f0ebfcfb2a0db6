pub mod Reads
pub mod Room
pub mod Seen
pub mod Stores
