pub mod Bounds
pub mod Fed
pub use Rattle.sound_model.specs.Weighted
