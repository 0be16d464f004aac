-- Laws of the definitions, by file.
pub mod Steps
pub mod Places
pub mod Starts
pub mod Found
pub mod Gathering
pub mod Octets
pub mod Stepping
pub mod Walking
pub mod Counts
pub mod Passing
pub mod Taking
pub mod Exact
