pub mod Table
pub mod Apart
pub mod Made
pub mod Needed
pub mod Lists
pub mod PlaceNet
pub mod SitePlace
