pub mod TruthLemmas
pub mod HeldLemmas
pub mod LearntLemmas
pub mod CoverLemmas
pub mod CertifiedLemmas
