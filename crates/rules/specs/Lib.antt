-- All rules.
pub mod Rules
