-- What is said of the octets of identifiers, on their arcs.
pub mod Statement
