pub mod Fault
pub mod Laws
pub mod Lines
pub mod Lookup
pub mod Outline
pub mod Reading
pub mod Seen
pub mod Words
