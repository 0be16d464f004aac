-- Laws of the definitions, by file.
pub mod Uris
pub mod Points
