pub mod Example
pub mod Sets
pub mod Standing
