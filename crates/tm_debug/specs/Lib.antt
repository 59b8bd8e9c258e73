pub mod Reading
pub mod Help
pub mod Session
pub mod Serving
pub mod Faults
