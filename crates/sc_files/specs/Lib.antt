pub mod Functions
pub mod Notes
pub mod Variables
