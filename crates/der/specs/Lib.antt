-- The definitions that the contracts cite, from X.690 and document 01's "Sound DER". Read them in this order.
pub mod Tags
pub mod Header
pub mod Contents
pub mod Integers
pub mod Oids
pub mod Order
pub mod Members
pub mod Children
pub mod Comparing
pub mod Arcs
pub mod Elements
pub mod Soundness
pub mod Workings
