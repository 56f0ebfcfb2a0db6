pub mod Added
pub mod Easy
pub mod Labels
pub mod Loops
pub mod Nodes
pub mod Whole
