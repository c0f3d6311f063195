pub mod Answers
pub mod AnySounds
pub use Rattle.file_model.specs.Files
