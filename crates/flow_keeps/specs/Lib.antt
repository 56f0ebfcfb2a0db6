pub mod Reads
pub mod Evaluates
pub mod Keeps
pub mod Sets
pub mod Calls
pub mod Updates
