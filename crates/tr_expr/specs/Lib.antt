pub mod Evals
pub mod Names
pub mod Plain
