pub mod Lookup
pub mod Tails
