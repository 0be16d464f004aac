-- What the bench's room holds when a frame is answered.
pub mod Rooms
