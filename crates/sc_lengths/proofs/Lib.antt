pub mod Behind
pub mod Down
pub mod Ahead
