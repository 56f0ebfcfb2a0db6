pub mod Value
pub mod Circuit
pub mod Runs
pub mod Literals
pub mod Facts
pub mod Lanes
