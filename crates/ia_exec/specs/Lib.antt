pub mod Words
pub mod Arithmetic
pub mod Moves
pub mod Control
pub mod Table
pub mod Laws
pub mod Finished
