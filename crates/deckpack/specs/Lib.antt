-- How a deck ends.
pub mod Ending
