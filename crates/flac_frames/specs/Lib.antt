pub mod Answers
pub mod Frames
pub mod Headers
pub mod Subframes
pub use Rattle.bit_codec.specs.Reader
pub use Rattle.file_model.specs.FlacFrame
pub use Rattle.file_model.specs.FlacHeader
pub use Rattle.file_model.specs.Subframe
