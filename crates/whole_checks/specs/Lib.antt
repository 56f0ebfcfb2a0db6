pub mod Said
pub mod Seen
pub mod Planned
pub use Rattle.sc_check.specs.Typed
