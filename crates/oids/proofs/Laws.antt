-- Laws of the definitions, by file.
pub mod Below
pub mod Theorem
