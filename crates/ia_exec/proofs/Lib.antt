pub mod Facts
pub mod Unread
pub mod Kept
