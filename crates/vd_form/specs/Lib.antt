pub mod Plain
pub mod Simple
pub mod Sections
