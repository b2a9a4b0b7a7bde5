pub mod SectionCode
pub mod Coding
pub mod StructsAlike
pub mod Scoping
