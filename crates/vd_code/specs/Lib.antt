pub mod Alike
pub mod Code
