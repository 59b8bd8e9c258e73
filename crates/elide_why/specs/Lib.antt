pub mod Lines
pub mod Interference
pub mod Subset
pub mod Words
pub mod Refused
