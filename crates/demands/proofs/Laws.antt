-- By demand.
pub mod Tables
pub mod First
pub mod Second
pub mod Third
pub mod Uniqueness
