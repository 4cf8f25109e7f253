pub use Rattle.xdp_state.specs.beat_core as beat_core
pub use Rattle.xdp_state.specs.bits_core as bits_core
pub use Rattle.xdp_state.specs.bpf_isa as bpf_isa
pub use Rattle.xdp_state.specs.list_laws as list_laws
pub use Rattle.xdp_state.specs.xdp_machine as xdp_machine
pub use Rattle.xdp_state.specs.xdp_maps as xdp_maps
pub mod Acts
pub mod Cells
pub mod Sites
pub mod Formed
pub mod View
pub mod CellLaws
pub mod SiteLaws
pub mod Passing
pub mod Rows
