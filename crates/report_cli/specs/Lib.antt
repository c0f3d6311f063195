pub mod Connections
pub mod Following
pub mod InTurn
pub mod Lines
pub mod Running
pub mod Seen
pub mod Statuses
