pub mod Write
pub mod RoundTrip
pub mod Lengths
