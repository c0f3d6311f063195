pub mod Reader
pub mod Windows
pub use Rattle.file_model.specs.Bits
pub use Rattle.file_model.specs.Crc
pub use Rattle.file_model.specs.Fields
pub use Rattle.file_model.specs.Outcomes
