-- Laws of the definitions and the terms that only laws need, which the layers above cite, and worked examples.
pub mod Laws
pub mod Terms
pub mod Examples
