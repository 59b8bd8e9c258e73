pub mod FieldLemmas
pub mod Sizes
pub mod Integers
pub mod Spelling
