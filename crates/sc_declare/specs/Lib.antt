pub mod Storage
pub mod Functions
pub mod Linkage
pub mod Numbers
pub mod Locals
pub mod Declarators
