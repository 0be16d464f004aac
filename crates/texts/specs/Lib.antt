-- Texts as octets, and what putting one into a lent buffer does.
pub mod Texts
pub mod Putting
pub mod Numerals
pub mod Workings
