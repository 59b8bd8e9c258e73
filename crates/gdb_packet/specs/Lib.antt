pub mod Packet
pub mod Reading
pub mod Numbers
pub mod Parts
pub mod Actions
pub mod Commands
