pub use Rattle.beat_core.specs as beat_core
pub use Rattle.beat_core.specs.list_laws as list_laws
pub use Rattle.net_core.specs as net_core
pub mod History
pub mod Bounds
pub mod Realizes
pub mod Laws
pub mod HostHistory
pub mod SameDesigns
