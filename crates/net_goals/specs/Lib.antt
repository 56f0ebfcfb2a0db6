pub mod Cones
pub mod Clauses
pub mod Goals
pub mod Numbers
