pub mod Joined
pub mod Kept
pub mod Cases
pub mod Branches
