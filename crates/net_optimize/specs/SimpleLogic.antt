pub mod Simple
pub mod Lost
