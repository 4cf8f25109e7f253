pub use Rattle.beat_core.specs as beat_core
pub use Rattle.xdp_machine.specs.bits_core as bits_core
pub use Rattle.xdp_machine.specs.bpf_isa as bpf_isa
pub use Rattle.beat_core.specs.list_laws as list_laws
pub use Rattle.xdp_machine.specs as xdp_machine
pub use Rattle.xdp_machine.specs.xdp_maps as xdp_maps
pub mod Reasons
pub mod Views
pub mod Cases
pub mod Machines
