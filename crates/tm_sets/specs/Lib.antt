pub mod LineSet
pub mod Content
pub mod Plain
pub mod Row
pub mod Count
pub mod Threaded
pub mod DirectoryRows
pub mod Ranked
