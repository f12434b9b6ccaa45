-- The laws that other crates cite.
pub mod Beside
pub mod LevelsAdded
pub mod Masked
pub mod Groups
