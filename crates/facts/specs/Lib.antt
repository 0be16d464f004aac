-- What rules may look at, and the elements of a certificate, at which they may be broken.
pub mod Kinds
pub mod Case
pub mod Elements
