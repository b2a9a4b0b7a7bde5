pub mod Nested
pub mod SectionText
