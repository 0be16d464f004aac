-- Laws of the definitions, which the layers above cite, and worked examples.
pub mod Laws
pub mod Examples
