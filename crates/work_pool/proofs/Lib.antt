pub mod Made
pub mod Visits
