pub mod Plainness
