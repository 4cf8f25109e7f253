pub mod WordLemmas
pub mod ListLemmas
pub mod TreeLemmas
pub mod ExitLemmas
pub mod SetLemmas
pub mod PlaceLemmas
pub mod TakenLemmas
pub mod SourceLemmas
