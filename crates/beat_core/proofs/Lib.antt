pub use Rattle.list_laws.proofs as list_laws_laws
pub mod BeatLaws
pub mod FillingLaws
pub mod LeftLaws
pub mod OrderLaws
pub mod PortLaws
pub mod WordLaws
