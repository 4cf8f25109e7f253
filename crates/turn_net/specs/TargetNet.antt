pub mod Targets
pub mod Commits
pub mod Tables
