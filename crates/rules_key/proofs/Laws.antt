-- Laws of the definitions, by file.
pub mod Bits
pub mod Noted
pub mod Rows
