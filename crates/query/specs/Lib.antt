pub mod Values
pub mod Lower
