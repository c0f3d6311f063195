pub mod Dots
pub mod Hearing
pub mod Lows
pub mod Places
pub mod Shifts
pub mod Sizes
