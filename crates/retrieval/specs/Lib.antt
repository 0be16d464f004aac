-- What is fetched of a deck.
pub mod Fetching
pub mod Fetches
pub mod Workings
