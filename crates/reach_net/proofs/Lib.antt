pub mod RowLemmas
mod WalkLemmas
