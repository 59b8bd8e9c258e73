pub mod Watched
pub mod Told
pub mod Extents
