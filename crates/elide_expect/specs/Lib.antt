pub mod Comments
pub mod Words
pub mod Expectations
pub mod Patterns
pub mod Outcomes
pub mod Tests
pub mod Judged
