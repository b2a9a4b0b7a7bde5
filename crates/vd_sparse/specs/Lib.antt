pub mod Sections
pub mod Making
pub mod Whole
