-- Laws of the definitions, by file.
pub mod Values
pub mod Small
pub mod Leading
pub mod Sign
pub mod Size
pub mod Exponent
