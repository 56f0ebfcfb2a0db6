pub mod Steps
pub mod Graph
