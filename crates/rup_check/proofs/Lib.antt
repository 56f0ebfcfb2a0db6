pub mod MarkingLemmas
pub mod LookingLemmas
pub mod StoredLemmas
pub mod PropagatingLemmas
pub mod FindingLemmas
pub mod SteppingLemmas
pub mod AlikeLemmas
