-- Laws of the definitions, by file.
pub mod Numbers
pub mod Identifier
pub mod Integers
pub mod Bits
pub mod Arcs
pub mod Values
pub mod Contents
pub mod Lengths
pub mod Element
pub mod Walks
pub mod Encoding
pub mod Reading
pub mod Writing
pub mod Outline
pub mod Theorem
