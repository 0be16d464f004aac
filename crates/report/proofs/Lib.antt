-- Laws of the definitions, and the terms that only laws need; the layers above cite both.
pub mod Laws
pub mod Terms
