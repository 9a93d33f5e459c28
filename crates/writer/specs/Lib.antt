pub mod Blocks
pub mod Declared
