pub use Rattle.list_laws.proofs as list_laws_laws
mod Chains
mod NameEnds
mod Walks
