pub mod BeginsStmt
pub mod CompleteInit
pub mod CompleteDecl
pub mod CompleteStmt
pub mod CompleteOutline
pub mod Rows
pub mod SoundInit
pub mod SoundDecl
pub mod SoundStmt
pub mod SoundOutline
pub mod SoundAll
pub mod Completeness
pub mod Fitting
mod Turns
mod Braces
mod FileTurns
mod FileSegments
