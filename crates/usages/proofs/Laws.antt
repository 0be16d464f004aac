-- Laws of the definitions, by file.
pub mod Usage
pub mod Alone
