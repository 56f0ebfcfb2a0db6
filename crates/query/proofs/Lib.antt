pub mod Order
pub mod Fixed
pub mod Narrowing
pub mod Counting
pub mod Lowering
