pub mod Chars
pub mod Numbers
pub mod Tokens
pub mod Terms
pub mod Lines
pub mod Words
pub mod Alone
