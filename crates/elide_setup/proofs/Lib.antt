mod EventTexts
mod Forms
mod ShownTexts
pub mod AlikeChunks
pub mod Alone
pub mod Boards
pub mod Drawing
pub mod DueCores
mod Histories
pub mod Made
pub mod Misread
pub mod NoSteps
pub mod OneFile
pub mod Owing
pub mod Records
pub mod Refusing
pub mod Rounds
pub mod Runs
pub mod Schedules
pub mod StepsKept
pub mod StepsRefused
pub mod Walks
