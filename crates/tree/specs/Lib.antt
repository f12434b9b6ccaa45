pub mod Tree
pub mod Path
pub mod Columns
pub mod Layout
pub mod WalkWords
pub mod Streams
pub mod Sides
