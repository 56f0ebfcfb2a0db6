pub mod MemberLemmas
pub mod StructLemmas
