pub mod ListLemmas
pub mod SharedLemmas
