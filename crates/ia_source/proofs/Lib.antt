pub mod Commas
pub mod MemoryOperands
pub mod Addends
pub mod ScopedTerms
pub mod Heads
pub mod AddedEntries
pub mod Powers
pub mod Names
pub mod FormsFit
pub mod SourceFits
pub mod Named
pub mod Kept
mod Sums
mod OperandLists
pub mod ReadLines
pub mod Fronts
pub mod Rests
pub mod WarnedLines
