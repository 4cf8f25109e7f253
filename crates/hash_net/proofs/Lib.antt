pub use Rattle.array_net.proofs as array_net_laws
mod StoreLists
mod CountLaws
mod HashForms
mod HashClock
mod HashWhole
pub mod SlotNet
