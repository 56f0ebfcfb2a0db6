pub mod Items
pub mod Loops
pub mod Room
pub mod Seen
pub mod Trees
