pub mod Words
pub mod Numbers
pub mod Addresses
pub mod Places
pub mod Refusals
pub mod Commands
