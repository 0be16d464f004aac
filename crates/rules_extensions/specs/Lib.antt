-- Rules 301 to 363, one definition a rule.
pub mod Slots
pub mod Identifiers
pub mod Rules
