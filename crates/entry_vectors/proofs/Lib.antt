pub mod Backwards
pub mod Dots
pub mod Products
pub mod Sums
