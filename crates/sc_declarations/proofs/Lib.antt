pub mod Joined
pub mod Expressions
pub mod Kept
pub mod Going
