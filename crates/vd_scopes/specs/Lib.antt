pub mod Head
pub mod Failing
pub mod Structs
pub mod Scope
pub mod Answers
