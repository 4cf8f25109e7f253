pub use Rattle.cell_core.specs.bpf_isa as bpf_isa
pub use Rattle.cell_core.specs as cell_core
pub use Rattle.cell_core.specs.xdp_machine as xdp_machine
pub use Rattle.xdp_maps.specs as xdp_maps
pub mod Tables
pub mod Shaped
pub mod StageValues
pub mod Overlay
pub mod Answering
pub mod Rows
pub mod Sourced
pub mod Marks
pub mod Commits
pub mod Changes
pub mod Keeping
pub mod Standing
pub mod Tabled
pub mod Replay
pub mod HeldRows
pub mod TableLaws
pub mod TableMaps
