pub mod Maps
pub mod Prefixes
pub mod Length
