pub mod Cursor
pub mod Opcodes
pub mod Machine
pub mod Table
