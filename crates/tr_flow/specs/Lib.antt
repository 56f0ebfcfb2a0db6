pub mod Seen
pub mod Taken
pub mod Arguments
pub use Rattle.flow_whole.specs.Graph
pub use Rattle.flow_whole.specs.Whole
