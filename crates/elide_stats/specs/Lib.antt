pub mod Causes
pub mod Counted
pub mod Hits
pub mod Refused
pub mod Columns
pub mod Rows
