pub mod OfKinds
pub mod TakenOut
pub mod OfRun
pub mod Ranges
pub mod Falls
pub mod InRound
pub mod EachKind
