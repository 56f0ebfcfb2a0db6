pub mod Targets
pub mod Paths
pub mod Gathered
pub mod Alias
pub mod Cells
