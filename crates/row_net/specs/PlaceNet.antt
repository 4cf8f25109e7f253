pub mod Exit
pub mod ExitNets
pub mod Place
pub mod PlaceNets
pub mod Sources
pub mod SourceNets
