pub mod Filling
pub mod Holding
pub mod Locating
pub mod Naming
pub mod Parting
pub mod Steps
pub mod Walking
pub mod Whole
