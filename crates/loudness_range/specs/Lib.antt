pub use Rattle.sound_model.specs.Ranges
