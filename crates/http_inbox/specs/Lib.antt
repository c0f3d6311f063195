pub mod Bodies
pub mod Extents
pub mod Filling
pub mod Heads
pub mod Inboxes
pub mod Nexts
