pub mod Fates
pub mod Labels
pub mod Told
