mod Contents
pub mod Listening
mod Refusals
