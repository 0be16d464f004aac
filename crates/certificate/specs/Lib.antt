-- What an accepted certificate says: its fields, its key, its extensions, and what counts of an issuer.
pub mod Fields
pub mod Key
pub mod Extensions
pub mod Slots
pub mod Standing
pub mod Issuer
pub mod Workings
