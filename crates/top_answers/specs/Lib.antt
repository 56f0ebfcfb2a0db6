pub mod Status
pub mod Lines
pub mod Answer
pub mod Seen
pub mod Refusals
pub mod Promises
