-- The laws that other crates cite.
pub mod Tables
pub mod Honest
pub mod Bounds
