pub mod EnergyTests
pub mod Trying
pub mod Walking
