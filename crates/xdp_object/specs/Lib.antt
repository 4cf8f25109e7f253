pub use Rattle.bpf_isa.specs as bpf_isa
pub use Rattle.xdp_machine.specs as xdp_machine
pub use Rattle.xdp_maps.specs as xdp_maps
-- the program and its sequential machine, which an object is read to
pub mod TwoUnits
pub mod Choice
pub mod Functions
pub mod Relocations
pub mod Maps
pub mod Object
pub mod Codes
pub mod Laws
pub mod MapRecords
