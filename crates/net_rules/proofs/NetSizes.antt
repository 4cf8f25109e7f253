pub mod FittingLaws
pub mod PortLaws
pub mod WireLemmas
