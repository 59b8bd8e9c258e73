pub mod Passing
pub mod Refusing
pub mod Steps
pub mod Within
