pub mod Labelled
pub mod Printed
