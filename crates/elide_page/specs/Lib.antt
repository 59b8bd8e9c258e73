pub mod Notes
pub mod Fronts
pub mod Reasons
pub mod Pages
pub mod Refused
