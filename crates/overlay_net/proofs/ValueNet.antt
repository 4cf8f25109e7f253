pub mod Holding
pub mod BitLemmas
pub mod ByteLaws
pub mod ChangeLaws
pub mod FollowLemmas
pub mod EntryLaws
