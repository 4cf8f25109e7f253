pub mod WiringLaws
pub mod SetLemmas
pub mod RegisterLemmas
