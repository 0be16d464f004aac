-- The profiles and their tables.
pub mod Fields
pub mod Extensions
pub mod Values
pub mod Levels
pub mod Judged
pub mod Workings
