-- Laws of the definitions, by file.
pub mod Length
pub mod Header
pub mod Contents
pub mod Order
pub mod Children
pub mod Members
pub mod Arcs
pub mod Any
pub mod Walks
pub mod Walking
pub mod Searching
pub mod Chains
pub mod Places
