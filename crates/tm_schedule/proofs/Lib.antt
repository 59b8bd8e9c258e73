pub mod Cuts
pub mod Counts
pub mod WordsBack
pub mod NumbersBack
pub mod PicksBack
pub mod ListsBack
mod ShortWords
pub mod RunsOf
pub mod RunsBack
pub mod RunsWritten
