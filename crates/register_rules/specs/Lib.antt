pub mod EqualRegisters
pub mod NarrowRegisters
