pub mod Absence
pub mod Children
pub mod Pieces
