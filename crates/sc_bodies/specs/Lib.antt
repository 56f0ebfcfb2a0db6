pub mod Bodies
pub mod Around
pub mod Parts
