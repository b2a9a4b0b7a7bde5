mod Steps
pub mod Values
