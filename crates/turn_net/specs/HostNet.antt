pub mod Names
pub mod Trees
pub mod Host
pub mod Values
pub mod Laws
