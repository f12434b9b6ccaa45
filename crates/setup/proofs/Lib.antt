-- The laws that other crates cite.
pub mod Answers
pub mod Honest
pub mod Message
pub mod Chosen
pub mod Levels
pub mod Find
