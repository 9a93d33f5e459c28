pub mod Open
pub mod States
