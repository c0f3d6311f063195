pub mod Windows
pub mod Heard
pub use Rattle.sound_model.specs.Peaks
