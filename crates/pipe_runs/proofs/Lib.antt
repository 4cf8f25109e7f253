pub use Rattle.pipe_core.proofs.realization_laws as realization_laws
pub mod Histories
pub mod Filled
pub mod Drives
pub mod Coming
pub mod Reading
pub mod Bounds
pub mod Clocks
pub mod Driving
pub mod Ending
pub mod Meets
pub mod Loaded
pub mod PipeAnswers
pub mod PipeLoads
pub mod PipePorts
