-- Laws of the definitions, by file.
pub mod Fetching
pub mod Fetches
