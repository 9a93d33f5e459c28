pub mod Fields
pub mod Lengths
pub mod Loop
pub mod Numbering
pub mod Stages
pub mod Texts
pub mod Unique
pub mod Writing
