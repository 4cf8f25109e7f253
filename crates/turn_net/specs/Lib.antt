pub use Rattle.cell_nets.specs as cell_nets
pub mod Actions
pub mod Nets
pub mod Steps
pub mod Action
pub mod HostNet
pub mod TargetNet
