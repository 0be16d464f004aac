-- Laws of the definitions, by file.
pub mod Soundness
pub mod Accepted
pub mod Theorem
