pub mod CheckLemmas
pub mod ReaderLemmas
pub mod WindowsLemmas
