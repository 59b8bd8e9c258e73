pub mod Placement
pub mod Contents
pub mod Placements
pub mod Parts
