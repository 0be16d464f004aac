-- Laws of the definitions, by file.
pub mod Findings
pub mod Lines
pub mod Listing
pub mod Whole
pub mod Filling
pub mod Printing
