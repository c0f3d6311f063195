pub mod Beside
pub use Rattle.library_model.specs.Names
pub use Rattle.library_model.specs.RowRules
