pub mod Pairing
pub mod Restoring
pub mod Weighing
