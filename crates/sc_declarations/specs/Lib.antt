pub mod Initialisers
pub mod Declarations
