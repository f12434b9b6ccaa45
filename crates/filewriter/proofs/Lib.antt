pub mod Laying
pub mod Done
pub mod RoundTrip
