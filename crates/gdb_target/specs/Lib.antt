pub mod Shown
pub mod Registers
pub mod Memory
pub mod Parts
