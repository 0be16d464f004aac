-- Laws of the definitions, by file.
pub mod Taken
pub mod Written
pub mod Recovery
pub mod Decks
pub mod Back
pub mod Statement
