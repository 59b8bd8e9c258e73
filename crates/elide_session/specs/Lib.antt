pub mod Opened
pub mod Refused
pub mod DebugRefused
pub mod DebugServed
pub mod GdbServed
