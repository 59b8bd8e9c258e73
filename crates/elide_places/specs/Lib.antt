pub mod FileSymbols
pub mod Shown
