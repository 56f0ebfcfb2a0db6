pub mod Events
pub mod Fits
pub mod Items
pub mod LoopLaws
pub mod LoopTests
pub mod Signs
pub mod Statements
pub mod Switches
