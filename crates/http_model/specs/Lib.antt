pub mod Asking
pub mod Exchanges
pub mod Fields
pub mod Refusals
pub mod Requests
pub mod Spelling
