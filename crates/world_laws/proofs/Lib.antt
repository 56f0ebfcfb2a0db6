pub mod Among
pub mod Bounded
pub mod Candidates
pub mod Items
pub mod Reported
pub mod Reports
pub mod Rising
