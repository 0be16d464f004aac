-- What is known of octets that were read and written by descriptors.
pub mod Reading
pub mod Writing
