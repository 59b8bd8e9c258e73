pub mod Tally
pub mod Places
pub mod Causes
pub mod Counts
pub mod Conflicts
pub mod OpenBytes
pub mod Spread
