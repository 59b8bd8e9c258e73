mod Between
pub mod Showing
