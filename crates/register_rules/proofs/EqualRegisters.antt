pub mod CountLaws
pub mod WireLemmas
pub mod StayLemmas
pub mod SettingLaws
pub mod ListLaws
