pub mod ChainLaws
pub mod StepLaws
pub mod FoldLaws
