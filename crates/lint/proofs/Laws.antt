-- Laws of the definitions, by file.
pub mod Answers
pub mod Values
pub mod Accepted
pub mod Order
pub mod Statements
pub mod Rooms
pub mod Bounds
