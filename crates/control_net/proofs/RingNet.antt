pub mod RingLaws
pub mod Values
pub mod Clocked
pub mod Formed
