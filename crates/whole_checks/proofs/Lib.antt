pub mod Plans
pub mod Machines
pub mod Whole
mod Shared
