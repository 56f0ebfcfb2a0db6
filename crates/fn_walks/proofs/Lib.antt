pub mod Fating
pub mod Gathering
pub mod Holding
pub mod Lost
pub mod Making
pub mod Reaching
pub mod Rooting
pub mod Stepping
