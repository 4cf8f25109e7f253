pub mod Pointing
pub mod PointerNets
pub mod Inputs
pub mod SitePlace
pub mod Holding
