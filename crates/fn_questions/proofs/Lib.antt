pub mod Kinding
pub mod Ready
pub mod Rowing
