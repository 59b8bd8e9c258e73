pub mod Powers
pub mod Layouts
pub mod Lengths
pub mod Placing
