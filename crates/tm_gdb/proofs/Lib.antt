pub mod Served
pub mod Retraced
pub mod Runs
