pub mod Checked
pub mod Marking
pub mod Looking
pub mod Stored
pub mod Propagating
pub mod Stepping
