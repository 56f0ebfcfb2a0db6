pub mod OneMore
pub mod ByKind
pub mod OfNodes
