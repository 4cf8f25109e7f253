pub mod FormedSyntax
pub mod FormedScope
pub mod Formed
pub mod SolvedWires
