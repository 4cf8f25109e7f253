pub mod FlagLemmas
pub mod NeutralLemmas
pub mod SelectLemmas
