pub mod Bounds
pub mod Joined
pub mod Members
pub mod Tallies
pub use Rattle.sound_model.specs.Albums
