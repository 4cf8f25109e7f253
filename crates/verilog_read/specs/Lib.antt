pub use Rattle.design_rules.specs as design_rules
pub mod Entries
pub mod Header
pub mod Declarations
pub mod Items
pub mod Designs
pub mod Texts
pub mod Parts
pub mod View
pub mod Words
pub mod VerilogFaults
