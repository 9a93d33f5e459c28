pub mod Polynomials
pub mod Tables
pub mod Theorems
