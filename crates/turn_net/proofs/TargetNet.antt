pub mod StandLemmas
pub mod FreeLemmas
pub mod TableLemmas
pub mod TargetLemmas
pub mod CommitLemmas
pub mod CommitLaws
