pub mod Below
pub mod Same
pub mod Walking
pub mod Temps
pub mod Over
pub mod Seen
