pub mod Asked
pub mod Fields
