pub mod Stores
pub mod Queues
