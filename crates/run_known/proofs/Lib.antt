pub mod Bits
pub mod CellKinds
pub mod LockRows
pub mod Numbers
pub mod Ranges
