pub mod Ending
pub mod Given
pub mod Growing
pub mod Marking
pub mod Rowing
pub mod States
pub mod Touching
pub mod Truths
