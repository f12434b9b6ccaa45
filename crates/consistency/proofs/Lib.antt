-- The laws that other crates cite.
pub mod MessageLaws
pub mod Folds
pub mod Sides
