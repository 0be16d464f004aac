-- A record cut into blocks, and the writer's complete answer.
pub mod Cutting
pub mod Values
pub mod Answers
