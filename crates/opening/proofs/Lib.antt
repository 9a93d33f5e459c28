pub mod Elements
pub mod Standing
pub mod Records
pub mod Steps
