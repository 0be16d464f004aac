-- Rules 201 to 208, one definition a rule.
pub mod Parameters
pub mod Algorithm
pub mod Bits
pub mod Rsa
pub mod Rules
pub mod Workings
