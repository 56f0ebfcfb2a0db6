pub mod TypeKinds
mod Making
mod Naming
