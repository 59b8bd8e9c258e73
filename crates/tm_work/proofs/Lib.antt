pub mod Turns
pub mod Counts
pub mod Disturbed
mod Late
