pub mod Renamed
pub mod ApartLaws
pub mod FreeLaws
pub mod AloneLaws
pub mod CleanLaws
