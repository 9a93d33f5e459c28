pub mod Algebra
pub mod Codes
pub mod Ops
