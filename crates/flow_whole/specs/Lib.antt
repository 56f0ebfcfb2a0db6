pub mod Whole
pub use Rattle.flow_gates.specs.Graph
