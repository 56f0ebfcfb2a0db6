pub mod Blocks
pub mod Compaction
