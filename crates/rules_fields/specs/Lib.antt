-- Rules 101 to 111, one definition a rule.
pub mod Version
pub mod Algorithms
pub mod Period
pub mod Rules
