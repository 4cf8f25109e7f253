pub use Rattle.xdp_maps.proofs as xdp_maps_laws
pub mod WordLaws
pub mod WordStoreLaws
pub mod WordMemoryLaws
pub mod WordReadLaws
pub mod HostLaws
mod ArrayLemmas
