pub mod Rules
pub mod Known
pub mod Spelled
pub mod NamesLaws
pub mod Apart
pub mod WellFormedLaws
