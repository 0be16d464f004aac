-- Laws of the definitions, by file.
pub mod Primes
pub mod Residues
