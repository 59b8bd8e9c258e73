pub mod Plain
pub mod Refused
pub mod Windows
