pub use Rattle.block_core.specs as block_core
pub use Rattle.commit_net.specs as commit_net
pub use Rattle.commit_net.specs.frame_net as frame_net
pub use Rattle.pipe_core.specs as pipe_core
pub mod Parts
pub mod Machine
pub mod Layout
pub mod Relation
pub mod Saying
pub mod Standing
pub mod PipeClocks
pub mod PipeForms
pub mod PipeFrames
pub mod PipeMaps
pub mod PipeMarks
pub mod PipePlaces
pub mod PipeTurns
