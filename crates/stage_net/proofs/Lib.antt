mod SiteLemmas
mod OwnLemmas
mod PutLemmas
mod RowLemmas
mod StepLemmas
mod StageLemmas
mod GivenLemmas
mod CellLemmas
mod EarlierLemmas
mod TableLemmas
mod SearchLemmas
pub mod ListLaws
pub mod NetLaws
pub mod ValueLaws
pub mod ApartLaws
pub mod SiteTable
