pub mod Halting
pub mod Object
pub mod Printed
pub mod Refused
