pub mod Alike
pub mod Printed
pub mod Refused
pub mod Replayed
pub mod Told
