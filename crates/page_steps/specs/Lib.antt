pub mod Types
pub mod Numbers
pub mod Registers
pub mod Stored
pub mod Words
pub mod Members
pub mod Steps
pub mod Reading
