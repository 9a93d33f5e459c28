pub mod Vectors
pub mod Rows
