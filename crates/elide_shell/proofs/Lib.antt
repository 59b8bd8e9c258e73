mod Digits
mod Escaping
mod Harmless
mod ReadBack
pub mod Texts
