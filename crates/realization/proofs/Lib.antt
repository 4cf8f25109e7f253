pub use Rattle.beat_core.proofs as beat_core_laws
pub use Rattle.beat_core.proofs.list_laws_laws as list_laws_laws
pub mod DriveLaws
pub mod PacketLaws
pub mod WordLaws
pub mod LineLaws
pub mod MeetsLaws
pub mod SameDesigns
