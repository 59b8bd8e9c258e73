pub mod Objects
pub mod TapTexts
pub mod Zips
