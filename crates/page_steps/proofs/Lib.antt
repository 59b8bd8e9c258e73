pub mod Texts
mod Saying
mod Escaping
mod Printing
mod Objects
mod Values
pub mod Reading
