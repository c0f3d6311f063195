pub mod Joining
pub mod Orders
pub mod Placing
pub mod Running
