pub use Rattle.cover_core.specs as cover_core
pub use Rattle.row_rules.specs as row_rules
pub use Rattle.xdp_object.specs as xdp_object
pub mod Counted
pub mod Prepared
pub mod Steps
