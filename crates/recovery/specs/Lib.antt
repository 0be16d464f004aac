-- Decks of our own writer, how blocks of them are spoiled, and what reading must give.
pub mod Submitted
pub mod Spoiling
pub mod Expected
pub mod Statements
