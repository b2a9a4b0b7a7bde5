pub mod Owners
pub mod Listed
