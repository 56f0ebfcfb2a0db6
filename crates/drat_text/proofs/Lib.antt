mod NumberLemmas
mod PartLemmas
mod LineLemmas
mod BelowLemmas
mod WordLemmas
mod ReadBack
