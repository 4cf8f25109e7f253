pub use Rattle.verilog_write.specs as verilog_write
pub mod Reads
pub mod Lexemes
pub mod Expressions
pub mod Rights
pub mod Statements
pub mod Laws
pub mod View
