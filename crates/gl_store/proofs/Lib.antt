pub mod ValueLemmas
pub mod PlaceLemmas
pub mod CopyLemmas
pub mod StoreLemmas
pub mod MakeLemmas
pub mod MarkLemmas
