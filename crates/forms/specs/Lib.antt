-- What rules say of one item, the lists of items, and rules on values.
pub mod Kinds
pub mod Lists
pub mod Values
