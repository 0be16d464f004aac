-- How the code goes about it, by file: what the contracts of functions name that no other crate can call.
pub mod Same
