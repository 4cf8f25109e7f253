pub use Rattle.unfold_core.proofs as unfold_core_laws
pub mod NodeRows
pub mod PlaceRows
