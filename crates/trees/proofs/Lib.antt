-- Laws of the definitions, and X.690's own examples.
pub mod Laws
pub mod Examples
