pub mod NumberLemmas
pub mod Ranges
