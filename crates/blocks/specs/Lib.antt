-- The deck's blocks, and the records that they hold.
pub mod Tests
pub mod Block
pub mod Record
