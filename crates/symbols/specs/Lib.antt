pub mod Marks
pub mod Shown
pub mod Symbols
