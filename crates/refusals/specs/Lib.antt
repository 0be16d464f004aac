-- The paper's numbers and values.
pub mod Table
