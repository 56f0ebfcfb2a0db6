-- The form in which a run is told.
pub use Rattle.fn_replay.specs.Replays.{Form, AsText, AsJson}
pub use Rattle.fn_replay.specs.Seen.{form_of}
