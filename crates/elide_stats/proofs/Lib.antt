mod Refusing
mod Steps
pub mod RowsMore
