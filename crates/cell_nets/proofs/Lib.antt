pub use Rattle.cell_core.proofs as cell_core_laws
pub use Rattle.frame_net.proofs as frame_net_laws
pub mod ExpressionPartLaws
pub mod SliceLaws
pub mod PartLaws
pub mod NarrowLaws
pub mod ChoiceLaws
pub mod TestLemmas
pub mod ShiftLaws
pub mod ListLemmas
pub mod JoinLemmas
pub mod AvailableLaws
pub mod ApartLaws
pub mod WireLemmas
pub mod GiveLaws
pub mod DivisionLemmas
pub mod GatherLemmas
pub mod SumLemmas
pub mod PhiLemmas
pub mod NumberLemmas
pub mod ComputingLaws
pub mod ComputingLemmas
pub mod OperandBlocks
pub mod StepNets
