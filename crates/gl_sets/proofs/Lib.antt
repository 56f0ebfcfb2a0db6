pub mod BoolLemmas
pub mod GuardLemmas
pub mod PointLemmas
pub mod MadeLemmas
pub mod JoinLemmas
pub mod MoveLemmas
