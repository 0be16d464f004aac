-- Laws of the definitions, by file.
pub mod Sides
pub mod Counting
