pub mod Exits
pub mod Laws
pub mod Ended
pub mod Marks
