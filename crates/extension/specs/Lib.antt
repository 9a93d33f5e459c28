pub mod Extension
pub mod Theorems
