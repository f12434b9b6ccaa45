-- The laws that other crates cite.
pub mod Column
pub mod NoErrors
pub mod AnyErrors
