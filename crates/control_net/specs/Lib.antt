pub mod Names
pub mod Control
pub mod Places
pub mod Trees
pub mod Returns
pub mod Block
pub mod RingNet
