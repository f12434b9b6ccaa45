pub mod Setup
pub mod Found
