pub use Rattle.bpf_isa.specs.bits_core as bits_core
pub use Rattle.bpf_isa.specs as bpf_isa
pub use Rattle.xdp_maps.specs as xdp_maps
pub mod Values
pub mod State
pub mod Arithmetic
pub mod Program
pub mod Pointers
pub mod Memory
pub mod Atomics
pub mod Helpers
pub mod Step
pub mod Runs
pub mod Touched
pub mod Ranges
pub mod MachineLaws
