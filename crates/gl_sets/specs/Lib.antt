pub mod Guards
pub mod Sets
