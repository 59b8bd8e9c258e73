pub mod Writing
pub mod Digits
