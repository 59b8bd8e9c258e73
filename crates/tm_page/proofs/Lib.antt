mod Parts
pub mod Own
mod Rows
mod Moved
mod Others
mod Memory
mod Stepped
mod StepOthers
mod StepOwn
mod StepDrain
pub mod Step
mod Run
mod Lists
mod Made
