pub mod Address
pub mod Load
