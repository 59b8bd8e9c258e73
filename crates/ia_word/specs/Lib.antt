pub mod Width
pub mod Condition
pub mod Bytes
pub mod Line
pub mod Operand
pub mod Register
