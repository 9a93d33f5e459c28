pub mod Additive
pub mod Agree
pub mod Laws
pub mod Logarithms
pub mod Product
