pub mod EntrySteps
pub mod Names
pub mod PartSteps
mod Refusing
pub mod SumSteps
