pub mod Places
pub mod Soundness
