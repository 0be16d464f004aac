-- Laws of the definitions, by file.
pub mod Filling
pub mod Lending
pub mod Stepping
