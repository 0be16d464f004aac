-- Laws of the definitions, by file.
pub mod Leaf
pub mod Rows
pub mod Tables
pub mod Choosing
pub mod Steps
pub mod Roots
pub mod Answers
pub mod Fields
pub mod Places
