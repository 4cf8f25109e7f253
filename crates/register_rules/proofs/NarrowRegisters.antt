pub mod ValueLemmas
pub mod StoredLemmas
pub mod EachLaws
pub mod DesignLemmas
pub mod DeclaredLemmas
