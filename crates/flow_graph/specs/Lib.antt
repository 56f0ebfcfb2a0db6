pub mod Conditions
pub mod Expressions
pub mod Growing
pub mod Laws
pub mod Nodes
pub mod Statements
pub mod Unrolled
