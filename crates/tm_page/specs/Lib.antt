pub mod Types
pub mod Applied
pub mod Shows
pub mod Difference
pub mod Before
