pub mod PipeClocks
pub mod PipeForms
pub mod PipeFrames
pub mod PipeMaps
pub mod PipeMarks
pub mod PipePlaces
pub mod PipeTurns
