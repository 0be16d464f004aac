-- The lines of a deck's listing, all of it, and a bufferful at a time.
pub mod Lines
pub mod Listing
pub mod Filling
