-- The definitions that the contracts and laws of the report cite. Read them in this order.
pub mod Entries
pub mod Forms
pub mod Putting
pub mod Answers
pub mod Order
pub mod Members
pub mod Rows
pub mod Sinks
pub mod Workings
