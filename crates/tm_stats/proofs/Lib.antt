pub mod Bounds
pub mod Hits
pub mod OneMore
pub mod Same
pub mod Told
mod Spreads
