pub mod ListLemmas
pub mod FlagLemmas
pub mod StageLemmas
pub mod SiteLaws
pub mod TableLaws
pub mod StagingLaws
