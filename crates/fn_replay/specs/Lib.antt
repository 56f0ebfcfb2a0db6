pub mod Replays
pub mod Seen
