-- What the laws speak of, and no contract does, by file.
pub mod Items
pub mod Rows
