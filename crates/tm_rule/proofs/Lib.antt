pub mod Facts
mod Left
