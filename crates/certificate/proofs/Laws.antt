-- Laws of the definitions, by file.
pub mod Members
pub mod Fields
pub mod Extensions
pub mod Slots
pub mod Inside
pub mod Named
pub mod Parts
pub mod Values
pub mod Standing
