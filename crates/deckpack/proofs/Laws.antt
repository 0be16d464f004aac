-- Laws of the definitions, by file.
pub mod Ending
pub mod Adding
