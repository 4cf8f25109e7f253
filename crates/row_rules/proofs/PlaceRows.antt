pub mod LocationLaws
pub mod PlaceLaws
pub mod SpanLaws
