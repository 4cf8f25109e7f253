pub use Rattle.pipe_core.specs as pipe_core
pub use Rattle.pipe_net.specs as pipe_net
pub use Rattle.pipe_core.specs.realization as realization
pub mod Apart
pub mod Meeting
pub mod PipeAnswers
pub mod PipeLoads
pub mod PipePorts
