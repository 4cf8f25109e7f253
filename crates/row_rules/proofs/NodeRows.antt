pub mod PlaceLemmas
pub mod RowsLaws
pub mod OneOutcomeLaws
pub mod CountLaws
