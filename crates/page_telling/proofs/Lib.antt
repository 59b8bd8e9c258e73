pub mod Keeping
pub mod Knowing
pub mod Lines
