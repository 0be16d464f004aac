-- Laws of the definitions, by file.
pub mod Tests
pub mod Octets
pub mod Parts
pub mod Numbers
pub mod Same
pub mod Places
pub mod Stretches
pub mod Copying
pub mod Writing
pub mod Finite
