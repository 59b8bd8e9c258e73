pub mod Fields
pub mod Segments
pub mod Tables
pub mod Faults
pub mod Loaded
pub mod Symbols
pub mod Named
