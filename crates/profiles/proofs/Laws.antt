-- Laws of the definitions, by file.
pub mod Judged
pub mod Levels
pub mod Slots
pub mod Limits
pub mod Extensions
