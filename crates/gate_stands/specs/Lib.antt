pub mod Items
pub mod Params
pub mod Exits
pub mod Standing
