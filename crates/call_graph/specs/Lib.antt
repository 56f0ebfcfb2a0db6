pub mod Evidence
pub mod Tables
pub mod Plans
