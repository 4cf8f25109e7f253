pub use Rattle.cell_nets.proofs as cell_nets_laws
pub mod StandLemmas
pub mod ChooseLemmas
pub mod KeepLemmas
pub mod DecideLemmas
pub mod AloneLemmas
pub mod NetLemmas
pub mod FormLemmas
pub mod ClockLemmas
pub mod HostNet
pub mod TargetNet
