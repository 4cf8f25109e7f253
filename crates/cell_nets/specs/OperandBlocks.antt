pub mod Wiring
pub mod Sets
pub mod Registers
