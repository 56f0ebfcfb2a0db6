pub mod Order
pub mod Reported
pub mod Runs
pub mod Shown
