pub use Rattle.overlay_net.specs as overlay_net
pub use Rattle.pipe_parts.specs as pipe_parts
pub use Rattle.stage_net.specs as stage_net
pub mod Pipeline
pub mod Errors
pub mod Answer
pub mod Order
pub mod Marks
pub mod Layout
pub mod Parts
pub mod Linking
pub mod MapParts
