-- Laws of the definitions, by file.
pub mod Types
pub mod Sets
pub mod Authorities
pub mod Numbered
