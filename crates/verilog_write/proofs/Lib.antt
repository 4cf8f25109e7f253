pub mod AddsLemmas
pub mod Words
pub mod Written
pub mod Facts
pub mod Sections
pub mod Places
