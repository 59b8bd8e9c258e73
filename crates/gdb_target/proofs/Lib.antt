pub mod Ranges
pub mod Statuses
