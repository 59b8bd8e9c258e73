pub mod Digests
pub mod Names
pub mod Expressions
pub mod Fields
pub mod Fits
