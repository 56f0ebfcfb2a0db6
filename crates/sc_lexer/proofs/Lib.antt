pub mod Steps
pub mod NumberProofs
pub mod LiteralProofs
pub mod PunctProofs
pub mod PieceProofs
pub mod WordProofs
pub mod PlaceProofs
pub mod ScanProofs
pub mod RemovalProofs
pub mod LawProofs
pub mod CutProofs
mod NamingProofs
