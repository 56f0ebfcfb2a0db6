pub mod CellLaws
pub mod StoreLaws
pub mod Turns
