pub mod Joins
pub mod Fed
