pub mod Moduli
pub mod Residues
pub mod Inverses
pub mod ResiduesLemmas
pub mod Primality
