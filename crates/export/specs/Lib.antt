-- Answers as numbers.
pub mod Packing
pub mod Workings
