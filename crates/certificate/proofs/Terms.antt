-- What the laws speak of, and no contract does, by file.
pub mod Inside
pub mod Named
