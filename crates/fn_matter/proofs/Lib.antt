pub mod Reading
pub mod Codes
pub mod TypeTrees
pub mod ExpTrees
pub mod StmTrees
pub mod Parts
