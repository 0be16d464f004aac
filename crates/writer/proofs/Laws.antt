-- Laws of the definitions, by file.
pub mod Cutting
pub mod Rooms
pub mod Desk
pub mod Values
pub mod Answers
pub mod Statements
