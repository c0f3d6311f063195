pub mod Ids
pub mod Resources
pub mod Routes
