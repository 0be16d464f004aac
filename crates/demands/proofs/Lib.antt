-- The demands, proved.
pub mod Laws
