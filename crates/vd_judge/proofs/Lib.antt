pub mod Agreeing
pub mod Agreement
pub mod Blocks
pub mod DerivedAlike
pub mod Expressions
pub mod NameLaws
pub mod Sizes
pub mod Statements
