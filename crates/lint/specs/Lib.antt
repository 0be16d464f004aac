-- The refusals, the findings and the linter's answer.
pub mod Refusals
pub mod Judging
pub mod Values
pub mod Answers
pub mod Statements
pub mod Workings
