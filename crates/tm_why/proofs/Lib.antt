mod OneStep
mod FilledRows
mod ChangedRows
mod Queues
mod Pending
mod StandingHits
pub mod HistorySteps
