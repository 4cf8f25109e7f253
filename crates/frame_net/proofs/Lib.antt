pub mod StoreLaws
pub mod MaskLaws
pub mod BankLaws
pub mod BitLaws
pub mod FormLaws
pub mod LoopLaws
pub mod ReadLaws
pub mod FreeLaws
pub mod AnswerLaws
mod FrameLemmas
mod HeldLemmas
mod GatherLemmas
mod GatherClock
mod GatherWhole
mod SourcesLemmas
pub mod ScatterNet
