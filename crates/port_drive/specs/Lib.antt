pub use Rattle.realization.specs as realization
pub mod Hosting
pub mod Offering
pub mod Reading
pub mod Reports
pub mod Driving
pub mod Giving
pub mod AnswerCounts
