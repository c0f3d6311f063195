pub mod Jobs
pub mod Lines
pub mod Plans
pub mod Totals
