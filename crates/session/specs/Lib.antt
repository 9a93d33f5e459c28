pub mod Calls
pub mod Causes
pub mod Declarations
pub mod Runs
pub mod Sessions
pub mod Validity
pub mod Theorems
