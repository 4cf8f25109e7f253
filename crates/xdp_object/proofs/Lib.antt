pub use Rattle.bpf_isa.proofs as bpf_isa_laws
pub mod FaultLaws
pub mod Layouts
pub mod MapLayouts
pub mod MapLemmas
pub mod NumberLaws
pub mod Opened
pub mod PartLemmas
pub mod Places
pub mod OutcomeLaws
pub mod ReadLaws
pub mod Referring
pub mod Searches
pub mod Strings
pub mod TableLaws
pub mod UnitLaws
pub mod WrittenBack
pub mod WholePrograms
