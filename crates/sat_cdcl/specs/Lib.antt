pub mod Answered
pub mod CdclState
pub mod Progressed
pub mod Resolvents
pub mod Certified
