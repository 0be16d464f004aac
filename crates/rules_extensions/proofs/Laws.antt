-- Laws of the definitions, by file.
pub mod Slots
pub mod Rows
pub mod Repeats
pub mod Standing
