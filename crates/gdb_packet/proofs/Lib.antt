pub mod Hearing
pub mod Unescaping
pub mod Digits
pub mod Leftmost
pub mod Told
