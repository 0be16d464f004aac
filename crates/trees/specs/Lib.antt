-- Trees of elements, their encoding by X.690, and the statement that sound DER is exactly such an encoding. Read them in this order.
pub mod Numbers
pub mod Values
pub mod Trees
pub mod Reading
pub mod Outline
pub mod Statement
pub mod Contents
pub mod Examples
