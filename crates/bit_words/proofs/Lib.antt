pub mod NumberLemmas
pub mod StepLemmas
pub mod LoopLemmas
pub mod SpellLemmas
pub mod SignLemmas
pub mod ProductLemmas
pub mod MoveLemmas
pub mod MakeLemmas
