-- The laws that other crates cite.
pub mod Allowed
pub mod Fits
pub mod Keys
