pub mod Deeds
pub mod Lines
