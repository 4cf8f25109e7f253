pub mod Declarations
pub mod Records
pub mod Rules
pub mod Variables
