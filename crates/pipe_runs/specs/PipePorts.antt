pub mod Answered
pub mod Followed
pub mod Ports
pub mod Patterns
pub mod Answering
