pub mod Fronts
pub mod Skips
pub mod TermLists
pub mod Ends
pub mod Lengths
pub mod Rows
pub mod Alone
