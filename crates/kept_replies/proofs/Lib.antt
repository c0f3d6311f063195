pub mod TokenLemmas
pub mod Finding
pub mod KeptRows
pub mod SeenLaws
pub mod Repeats
