pub mod Error
pub mod Front
pub mod Start
pub mod TypeNames
