pub mod Puts
pub mod Spelled
pub mod Words
