pub use Rattle.frame_net.specs as frame_net
pub use Rattle.read_net.specs as read_net
pub mod Targets
pub mod Fetching
pub mod Choosing
pub mod Words
pub mod Wiring
pub mod Wholes
pub mod Laws
pub mod ChangeNet
pub mod MapBlock
