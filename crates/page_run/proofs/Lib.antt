pub mod Cores
pub mod Refusing
pub mod Windows
