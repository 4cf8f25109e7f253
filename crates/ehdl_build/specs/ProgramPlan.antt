pub mod Pipelinable
pub mod ReadCells
pub mod Leading
