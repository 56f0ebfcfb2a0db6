pub mod Checked
pub use Rattle.whole_checks.specs.Said
pub use Rattle.whole_checks.specs.Seen
pub use Rattle.whole_checks.specs.Typed
