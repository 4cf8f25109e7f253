pub use Rattle.cell_core.proofs as cell_core_laws
pub mod RowLaws
pub mod KeepingLemmas
pub mod RefusalLemmas
pub mod RowLemmas
