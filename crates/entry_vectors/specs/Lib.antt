pub mod Combining
pub mod Facts
