mod Apart
pub mod Zips
mod Named
mod Asked
mod Parts
mod Words
mod Cuts
mod Clauses
mod Digits
mod Operators
mod Reasons
mod Limits
