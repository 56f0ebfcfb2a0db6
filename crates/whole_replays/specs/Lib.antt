pub mod Forms
pub mod Told
pub mod Seen
pub mod Spared
pub use Rattle.whole_checks.specs.Said
pub use Rattle.whole_checks.specs.Typed
