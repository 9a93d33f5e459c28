pub mod Shapes
pub mod Laws
