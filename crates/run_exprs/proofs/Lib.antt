pub mod Arguments
pub mod Events
