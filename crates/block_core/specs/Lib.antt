pub use Rattle.design_rules.specs as design_rules
pub use Rattle.net_core.specs as net_core
pub mod Rename
pub mod Blocks
pub mod Link
pub mod Parts
pub mod Order
pub mod Law
pub mod Formed
pub mod View
pub mod Range
pub mod BlockForms
pub mod ProductBlocks
