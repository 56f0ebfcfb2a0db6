pub mod Marks
pub mod Graphs
pub mod Planned
