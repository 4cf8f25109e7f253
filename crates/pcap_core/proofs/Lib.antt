pub mod Numbers
pub mod Heads
pub mod Parts
pub mod Headers
pub mod Records
pub mod ContentLaws
pub mod OpenLemmas
pub mod StreamLemmas
