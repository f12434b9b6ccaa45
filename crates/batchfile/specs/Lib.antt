pub mod File
pub mod Laid
