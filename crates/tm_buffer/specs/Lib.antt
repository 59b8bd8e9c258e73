pub mod Buffer
pub mod Slots
