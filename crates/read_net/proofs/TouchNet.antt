pub mod StepLemmas
pub mod EntryLemmas
pub mod ListLemmas
pub mod MarkLemmas
pub mod ReadLemmas
