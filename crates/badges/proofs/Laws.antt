-- Laws of the definitions, by file.
pub mod Uuids
