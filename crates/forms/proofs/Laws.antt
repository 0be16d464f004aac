-- Laws of the definitions, by file.
pub mod Lists
pub mod Values
