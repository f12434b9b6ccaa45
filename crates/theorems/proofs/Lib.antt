-- The laws that other crates cite, and the theorems.
pub mod Cases
pub mod Setup
pub mod Batch
pub mod Demand1
pub mod Demand3
pub mod Demand2
pub mod OldBatches
pub mod Ties
pub mod Chained
pub mod Edges
pub mod Kept
pub mod Witness
pub mod Cheats
pub mod WeakKeys
