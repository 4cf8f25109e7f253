pub use Rattle.xdp_state.proofs.beat_core_laws as beat_core_laws
pub use Rattle.xdp_state.proofs.list_laws_laws as list_laws_laws
pub use Rattle.xdp_state.proofs.xdp_maps_laws as xdp_maps_laws
pub mod Values
pub mod SpelledLaws
pub mod Sites
pub mod Kept
pub mod Running
pub mod Rows
pub mod BitLaws
pub mod NumberLaws
pub mod OperatorLaws
pub mod FrameLaws
pub mod RowLaws
pub mod ViewLaws
