-- Laws of the definitions, by file.
pub mod CommonName
pub mod Rows
