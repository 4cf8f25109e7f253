pub mod Units
pub mod Flows
pub mod Answers
