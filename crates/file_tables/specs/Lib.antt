pub mod Filled
pub mod Own
pub mod Linkage
