-- What the tables say, computed; laws of the table of rules.
pub mod Laws
