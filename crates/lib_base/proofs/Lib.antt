pub mod Sampling
pub mod Scales
pub mod Writing
