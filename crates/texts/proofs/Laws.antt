-- Laws of the definitions, by file.
pub mod Putting
pub mod Decimal
pub mod Digits
pub mod Leading
pub mod Numerals
