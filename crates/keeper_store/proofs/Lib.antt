pub mod Changing
pub mod Dropping
pub mod EnergyRows
pub mod Finding
pub mod Putting
pub mod Worked
