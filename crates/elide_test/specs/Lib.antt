pub mod Answers
pub mod Folder
pub mod Object
pub mod Printed
pub mod Refusals
pub mod Tap
pub mod Tried
