pub mod Cores
pub mod Memory
pub mod Objects
pub mod Outcomes
pub mod Refused
pub mod Sent
pub mod Shown
pub mod Words
