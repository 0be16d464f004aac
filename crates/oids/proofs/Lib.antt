-- The statement, proved.
pub mod Laws
