pub mod FormProofs
pub mod ReadingProofs
pub mod WholeProofs
pub mod WordProofs
