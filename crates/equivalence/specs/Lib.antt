pub mod Automata
pub mod Entries
pub mod Exploration
pub mod Spans
pub mod Trees
pub mod Tries
pub mod Valuing
pub mod Theorems
