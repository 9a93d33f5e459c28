pub mod Causes
pub mod Declared
pub mod Given
pub mod Outcomes
pub mod Runs
pub mod Validity
