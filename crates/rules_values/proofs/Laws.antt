-- Laws of the definitions, by file.
pub mod Identifiers
pub mod Qualifiers
pub mod FullNames
pub mod Rows
pub mod Usage
