pub mod ByteLemmas
pub mod BeatLemmas
pub mod ChosenLemmas
pub mod ShownLemmas
pub mod FormLemmas
pub mod FreeLemmas
pub mod ScatterWhole
