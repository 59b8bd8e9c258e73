pub mod Writing
pub mod Number
pub mod TextLine
