-- Laws of the definitions, by file.
pub mod Putting
pub mod Passes
pub mod Forms
pub mod Members
pub mod Order
pub mod Reading
pub mod First
pub mod Rows
pub mod Sinks
