pub mod Standing
pub mod Reading
pub mod Bodies
pub mod Laid
pub mod Taken
pub mod Batch
pub mod Again
pub mod Witness
