pub mod Codes
pub mod Inverse
pub mod Powers
pub mod Rings
pub mod Transfer
