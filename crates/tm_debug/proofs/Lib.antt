pub mod Parts
pub mod Feeds
pub mod Bytewise
pub mod Sessions
pub mod Spoken
