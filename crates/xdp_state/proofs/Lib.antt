pub use Rattle.beat_core.proofs as beat_core_laws
pub use Rattle.beat_core.proofs.list_laws_laws as list_laws_laws
pub use Rattle.xdp_machine.proofs as xdp_machine_laws
pub use Rattle.xdp_machine.proofs.xdp_maps_laws as xdp_maps_laws
pub mod Slots
