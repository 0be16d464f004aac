-- Octets by their place, what numbers and characters they say, when two stretches are the same, places, and copying.
pub mod Octets
pub mod Numbers
pub mod Characters
pub mod Same
pub mod Places
pub mod Stretches
pub mod Copying
pub mod Workings
