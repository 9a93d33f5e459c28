pub mod Rules
pub mod Towers
pub mod Parts
