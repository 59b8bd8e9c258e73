pub mod Names
pub mod Arguments
pub mod Text
pub mod Listing
