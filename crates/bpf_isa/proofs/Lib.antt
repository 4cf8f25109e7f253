pub mod CodeLaws
pub mod Units
pub mod Fronts
pub mod Laws
pub mod TextLaws
pub mod LaidLaws
