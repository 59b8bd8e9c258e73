pub mod ScheduleWords
pub mod ScheduleNumbers
pub mod Picks
pub mod ScheduleRuns
pub mod Schedule
pub mod Pieces
pub mod Unread
pub mod ScheduleWriting
