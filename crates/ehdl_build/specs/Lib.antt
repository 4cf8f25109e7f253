pub use Rattle.verilog_write.specs as verilog_write
pub mod Pipelines
pub mod Compiled
pub mod Steps
pub mod PipePrograms
pub mod ProgramPlan
