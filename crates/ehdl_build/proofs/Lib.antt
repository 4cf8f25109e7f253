pub mod Prepared
pub mod Within
pub mod Sequential
pub mod Apart
pub mod Realized
pub mod Outcomes
pub mod PipePrograms
pub mod ProgramPlan
