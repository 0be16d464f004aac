-- Laws of the definitions, by file.
pub mod Packing
pub mod Statements
