pub mod Acts
pub mod Framings
pub mod Sessions
pub mod Turns
pub mod World
