pub mod Combining
pub mod Gathering
pub mod Joining
