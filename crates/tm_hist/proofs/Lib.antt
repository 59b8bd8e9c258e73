mod UsualSteps
pub mod Rows
pub mod Bodies
pub mod Runs
pub mod QueueRuns
pub mod QueueSteps
pub mod SeenBytes
pub mod RunFronts
pub mod Stops
pub mod StopsDrained
pub mod Idles
pub mod Boards
mod OwedAlone
pub mod Pushes
pub mod UnderEvents
pub mod PendingBoards
pub mod Owed
mod HistoryCores
