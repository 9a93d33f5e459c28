pub mod Operations
pub mod Table
