pub use Rattle.hazard_core.specs.cell_core as cell_core
pub use Rattle.cell_nets.specs as cell_nets
pub use Rattle.hazard_core.specs as hazard_core
pub use Rattle.hazard_core.specs.xdp_machine as xdp_machine
pub use Rattle.hazard_core.specs.xdp_maps as xdp_maps
pub mod Reading
pub mod Seen
pub mod SiteOperands
pub mod ValueNet
