pub mod Texts
pub mod Place
pub mod Answer
pub mod Naming
pub mod OpenBrackets
pub mod Laws
