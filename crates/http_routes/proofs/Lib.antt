pub mod Inserting
pub mod NumberLemmas
pub mod Texts
pub mod Worked
