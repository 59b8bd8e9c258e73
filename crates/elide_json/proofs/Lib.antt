mod Floats
mod Lists
pub mod RunTexts
mod Same
