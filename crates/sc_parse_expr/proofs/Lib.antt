pub mod Begins
pub mod Steps
mod Spans
pub mod Tools
pub mod SoundLists
pub mod SoundExpr
pub mod SoundSpecs
pub mod SoundDeclarator
pub mod SoundReading
pub mod Inner
pub mod CompleteExpr
pub mod CompleteSpecs
pub mod CompleteDeclarator
pub mod Completeness
pub mod Whole
mod Phrases
