pub mod Evident
pub mod Whole
pub mod Entries
pub mod Edges
