-- The laws that other crates cite.
pub mod Sums
pub mod Path
pub mod Columns
pub mod WalkWords
pub mod Telescope
pub mod Streams
pub mod Sides
pub mod TreesFit
