pub mod Parts
pub mod Cuts
pub mod Trees
pub mod Inserted
pub mod Namings
