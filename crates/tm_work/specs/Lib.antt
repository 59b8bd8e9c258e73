pub mod Bursts
pub mod Events
pub mod Faults
pub mod Late
pub mod Opening
pub mod Seats
pub mod Workers
