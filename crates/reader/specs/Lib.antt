-- What reading a deck finds.
pub mod Runs
pub mod Events
pub mod Finding
pub mod Stepping
pub mod Taking
pub mod Counting
pub mod Exactly
pub mod Walking
pub mod Workings
