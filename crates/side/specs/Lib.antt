pub mod Both
pub mod Numbers
