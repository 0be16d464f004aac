-- The side of a record that an argument names.
pub mod Sides
pub mod Workings
