pub mod PlaceFaults
pub mod Exactness
pub mod Symbols
pub mod Values
pub mod Items
