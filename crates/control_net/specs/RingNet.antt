pub mod Ring
pub mod Names
pub mod Control
pub mod Trees
