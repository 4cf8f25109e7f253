pub mod Places
pub mod Machine
pub mod HostShown
pub mod ActionShown
pub mod TargetLemmas
pub mod TargetShown
pub mod Followed
