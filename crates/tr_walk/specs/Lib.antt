pub mod Walks
pub mod Leaves
pub mod Evaled
pub mod Behind
pub mod Operands
