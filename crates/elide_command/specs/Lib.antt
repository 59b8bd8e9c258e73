pub mod Answers
pub mod Telling
