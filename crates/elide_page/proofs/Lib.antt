pub mod Noting
pub mod Listing
pub mod Pieces
pub mod Fronting
pub mod Explaining
pub mod Paging
pub mod Untold
pub mod Refusing
