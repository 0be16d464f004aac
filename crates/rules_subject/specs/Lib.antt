-- Rules 112 to 122, one definition a rule.
pub mod Attributes
pub mod CommonName
pub mod Rules
