pub mod Asked
pub mod Items
pub mod Outer
pub mod Params
pub mod Parts
