pub mod Colors
pub mod Painting
