pub mod Units
pub mod Failing
pub mod Assembling
