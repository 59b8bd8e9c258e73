pub mod Commas
pub mod Shown
pub mod Escaped
