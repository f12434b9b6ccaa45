-- The laws that other crates cite.
pub mod RowLaws
pub mod Places
pub mod Turns
pub mod Stores
pub mod Blocks
