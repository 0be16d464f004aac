-- Rules 401 to 424, one definition a rule.
pub mod Identifiers
pub mod Usage
pub mod Purposes
pub mod Policies
pub mod Hosts
pub mod Access
pub mod Points
pub mod Authority
pub mod Rules
