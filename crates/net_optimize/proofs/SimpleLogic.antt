pub mod ListLemmas
pub mod LostLemmas
pub mod SameLemmas
