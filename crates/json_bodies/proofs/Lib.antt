pub mod Reading
pub mod Recordings
