-- The attributes of a subject name: their types and values, and what the rules on a subject say of one attribute and of one SET of them.
pub mod Types
pub mod Texts
pub mod Authorities
pub mod Sets
