-- Laws of the definitions, by file.
pub mod Logic
pub mod Weigh
pub mod Check
pub mod Fill
pub mod Block
pub mod Record
