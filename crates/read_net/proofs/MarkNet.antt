pub mod StandLemmas
pub mod NextLemmas
pub mod GatherLemmas
pub mod BlockLemmas
pub mod ReloadLemmas
pub mod StandingLemmas
