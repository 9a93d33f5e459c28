pub mod Drafts
pub mod Refusals
