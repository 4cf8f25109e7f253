pub use Rattle.row_net.specs as row_net
pub mod Reads
pub mod Nets
pub mod Staged
pub mod Rows
pub mod Stage
pub mod SiteTable
