pub mod Gating
pub mod Segmenting
pub mod Summing
