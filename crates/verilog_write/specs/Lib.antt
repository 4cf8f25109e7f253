pub use Rattle.design_rules.specs as design_rules
pub mod Adds
pub mod Places
pub mod Sorts
pub mod Writable
pub mod VerilogGrammar
