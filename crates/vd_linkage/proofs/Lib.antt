pub mod Lists
pub mod Readings
pub mod Plain
pub mod Single
