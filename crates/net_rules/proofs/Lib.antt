pub mod LogicRules
pub mod NetSizes
pub mod OkLaws
