pub mod HeaderLine
pub mod HeaderView
pub mod EndLine
pub mod Place
pub mod Content
pub mod Answer
pub mod Exact
pub mod Naming
