pub mod Counting
pub mod Walking
