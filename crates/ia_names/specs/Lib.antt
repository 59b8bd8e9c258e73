pub mod Locals
pub mod Nodes
pub mod Tries
pub mod Namings
