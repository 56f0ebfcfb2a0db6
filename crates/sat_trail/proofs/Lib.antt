pub mod PlaceLemmas
pub mod WeightLemmas
pub mod FollowLemmas
