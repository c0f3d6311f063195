pub use Rattle.file_model.specs.Pairs
pub use Rattle.file_model.specs.Predict
