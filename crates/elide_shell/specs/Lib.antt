pub mod Controls
pub mod Options
pub mod Reading
pub mod Shell
