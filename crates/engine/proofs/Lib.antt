pub mod Calls
pub mod Same
