pub mod Completeness
pub mod Ends
