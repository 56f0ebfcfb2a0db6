pub mod CallGraph
pub mod Outputs
pub mod Verdicts
