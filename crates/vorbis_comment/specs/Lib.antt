pub mod Answers
pub mod Heads
pub mod Spans
pub use Rattle.file_model.specs.Comments
