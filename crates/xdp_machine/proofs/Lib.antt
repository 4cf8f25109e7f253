pub use Rattle.bpf_isa.proofs as bpf_isa_laws
pub use Rattle.xdp_maps.proofs as xdp_maps_laws
pub mod ChangeLaws
pub mod RunLaws
pub mod StepLaws
pub mod PartLaws
pub mod NumberLaws
pub mod FitLaws
pub mod SizeLaws
pub mod TouchLaws
pub mod RangeLaws
pub mod CallLaws
