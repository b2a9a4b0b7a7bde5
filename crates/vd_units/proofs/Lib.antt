pub mod Indexing
pub mod Places
pub mod Shapes
