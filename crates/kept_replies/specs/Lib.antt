pub mod Holding
pub mod Orders
pub mod Rows
pub mod Seeing
pub mod Tokens
