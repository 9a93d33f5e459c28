pub mod Chains
pub mod Mapped
