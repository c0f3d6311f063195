pub use Rattle.sound_model.specs.Levels
pub use Rattle.sound_model.specs.Texts
