pub use Rattle.hash_net.specs.array_net as array_net
pub use Rattle.hash_net.specs as hash_net
pub use Rattle.overlay_net.specs as overlay_net
pub use Rattle.pipe_core.specs as pipe_core
pub mod Sites
pub mod Reads
pub mod Accesses
pub mod MarkNet
pub mod TouchNet
