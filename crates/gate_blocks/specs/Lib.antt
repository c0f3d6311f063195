pub mod Bounds
pub mod Meters
pub use Rattle.sound_model.specs.Segments
pub use Rattle.sound_model.specs.Blocks
