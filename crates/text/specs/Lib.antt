pub mod Example
pub mod Exchange
