-- Laws of the definitions, by file.
pub mod Calendar
pub mod Anniversary
pub mod Validity
pub mod Reads
