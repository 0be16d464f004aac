-- The three demands of document 00.
pub mod First
pub mod Second
pub mod Third
