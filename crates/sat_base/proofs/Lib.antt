pub mod Marking
pub mod Scanning
pub mod Passing
pub mod Splitting
pub mod Assuming
pub mod Certifying
