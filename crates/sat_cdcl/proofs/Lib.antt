pub mod SearchLemmas
pub mod ResolventLemmas
pub mod InferredLemmas
