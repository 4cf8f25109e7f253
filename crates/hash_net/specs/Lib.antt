pub use Rattle.array_net.specs as array_net
pub mod HashNets
pub mod Hash
pub mod SlotNet
