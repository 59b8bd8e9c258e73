pub mod Burst
pub mod Plans
pub mod Printed
pub mod Refused
