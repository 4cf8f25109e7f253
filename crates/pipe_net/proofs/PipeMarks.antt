pub mod PlaceLemmas
pub mod ReadLemmas
pub mod ShownLemmas
pub mod FollowLemmas
