pub mod Reading
pub mod Naming
pub mod Leaving
pub mod PrefixLaws
pub mod FeedingLaws
