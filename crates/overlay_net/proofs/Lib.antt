pub use Rattle.hazard_core.proofs.cell_core_laws as cell_core_laws
pub use Rattle.cell_nets.proofs as cell_nets_laws
pub use Rattle.hazard_core.proofs as hazard_core_laws
pub use Rattle.hazard_core.proofs.xdp_maps_laws as xdp_maps_laws
pub mod PointerLaws
pub mod SiteOperandLaws
pub mod KeyLemmas
pub mod WriteLemmas
pub mod FindLemmas
pub mod AnswerLemmas
pub mod ValueNet
