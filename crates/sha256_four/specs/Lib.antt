pub mod FourDigests
