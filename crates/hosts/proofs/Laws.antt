-- Laws of the definitions, by file.
pub mod Tests
pub mod Names
pub mod Hosts
pub mod Labels
