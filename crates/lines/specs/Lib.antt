pub mod Fields
pub mod Recognized
