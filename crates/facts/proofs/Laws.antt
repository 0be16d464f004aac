-- Laws of the definitions, by file.
pub mod Members
pub mod Fields
pub mod Key
pub mod Inside
pub mod Slots
pub mod Case
