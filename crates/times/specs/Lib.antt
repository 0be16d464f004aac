-- The calendar, the times of a validity with rules 109 to 111, and how a time is read.
pub mod Calendar
pub mod Anniversary
pub mod Validity
pub mod Reads
