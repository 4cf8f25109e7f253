pub mod ChosenLemmas
pub mod WordLemmas
pub mod UnderLemmas
pub mod IndexLemmas
pub mod TestLemmas
pub mod ChainLemmas
pub mod PointerLemmas
pub mod ShownLemmas
