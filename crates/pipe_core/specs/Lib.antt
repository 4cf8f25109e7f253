pub use Rattle.hazard_core.specs as hazard_core
pub use Rattle.realization.specs.net_core as net_core
pub use Rattle.realization.specs as realization
pub use Rattle.row_plan.specs as row_plan
pub mod Machine
pub mod History
pub mod Computed
pub mod Sequential
pub mod Drive
pub mod Agreement
pub mod Sending
pub mod Placed
pub mod SeenChanges
pub mod Marked
pub mod Pipeable
pub mod Agreed
pub mod Right
pub mod SequentialOrder
pub mod Forward
pub mod Apart
pub mod Prefix
pub mod Planned
pub mod BuildView
pub mod PlacesView
pub mod StageMemory
pub mod Points
pub mod FrameQueue
pub mod StateView
pub mod PipeView
pub mod Meeting
pub mod ChangeCauses
pub mod Found
pub mod Unconflicting
pub mod LineRate
pub mod HostRuns
